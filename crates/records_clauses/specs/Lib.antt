-- Clauses as words.
pub mod Clauses
