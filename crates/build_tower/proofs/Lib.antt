-- The laws of a tower.
pub mod Towers
pub mod Determined
