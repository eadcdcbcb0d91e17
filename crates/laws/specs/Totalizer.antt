-- Merging, growing, defining.
pub mod Grows
pub mod Merges
pub mod Heights
pub mod Defines
pub mod Outputs
