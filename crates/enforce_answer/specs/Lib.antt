-- Tares laid from the back, an answer in counts, and what the words have of a build.
pub mod Tares
pub mod Ends
pub mod Stored
