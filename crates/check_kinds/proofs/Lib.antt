-- The laws of known kinds.
pub mod Known
pub mod Determined
