-- The laws of walks over inputs.
pub mod Inputs
pub mod Determined
