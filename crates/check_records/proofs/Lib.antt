-- The laws of the pass over the records.
pub mod Right
pub mod Determined
