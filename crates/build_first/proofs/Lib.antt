-- The laws of a first build.
pub mod Building
pub mod Determined
