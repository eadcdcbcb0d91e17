-- The laws of extending old outputs.
pub mod Extending
pub mod Determined
