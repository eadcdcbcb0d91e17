-- The laws of walks over places, and of the tests of lists.
pub mod Chains
pub mod Walk
pub mod Slots
pub mod Determined
