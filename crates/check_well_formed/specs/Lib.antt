-- The clauses of well formed in the order in which they are tested.
pub mod Groups
