-- The root outputs of a range, and entries by their words.
pub mod Values
pub mod Taken
