-- What accepted calls lead to.
pub mod Clauses
pub mod Worlds
pub mod Reached
pub mod Numbered
pub mod Plain
