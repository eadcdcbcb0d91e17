-- The steps of walks over outputs and waiting entries.
pub mod Steps
