-- Encode appends.
pub mod Appends
