-- The laws of the queue in the work words.
pub mod Fronts
pub mod Members
pub mod Steps
pub mod Gathering
pub mod Waiting
pub mod Determined
