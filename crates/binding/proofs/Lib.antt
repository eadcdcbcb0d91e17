-- The promises of the exported functions.
pub mod Determined
