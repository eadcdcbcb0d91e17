-- A walk over what waits, and that what is well formed can be read.
pub mod Waiting
pub mod Whole
pub mod Determined
