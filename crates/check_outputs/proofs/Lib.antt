-- The laws of walks over outputs and waiting entries.
pub mod Outputs
pub mod Entries
pub mod Determined
