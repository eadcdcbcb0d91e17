-- The laws of what start writes.
pub mod Written
pub mod Begun
pub mod Determined
