-- The laws of appending a record.
pub mod Appending
pub mod Determined
