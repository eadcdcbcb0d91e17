-- What well formed says: the test of document 01 and the plain facts, each giving the other.
pub mod Plain
pub mod Clauses
pub mod ToPlain
pub mod ToClauses
pub mod Whole
pub mod Keeps
