-- The laws of a line.
pub mod Lines
pub mod Firsts
pub mod Determined
