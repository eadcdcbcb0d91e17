-- The steps of the walks over inputs.
pub mod Steps
