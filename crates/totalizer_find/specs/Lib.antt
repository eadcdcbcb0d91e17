-- The word-level step of finding, and what is found.
pub mod Hit
pub mod Found
