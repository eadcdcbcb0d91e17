-- The laws of values and of entries taken in turn.
pub mod Turns
pub mod Lasts
pub mod Determined
