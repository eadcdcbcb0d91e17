-- The laws of pairs and their clauses.
pub mod PairWalk
pub mod Growth
pub mod Clauses
pub mod Determined
