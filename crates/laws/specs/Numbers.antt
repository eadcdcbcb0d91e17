-- Halving, and digits against powers of two.
pub mod Halving
pub mod Powers
