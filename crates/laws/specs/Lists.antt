-- Facts of lists.
pub mod Facts
pub mod Counts
pub mod Sorts
pub mod Pigeons
