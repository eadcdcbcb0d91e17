-- The laws of merging.
pub mod Merging
pub mod Determined
