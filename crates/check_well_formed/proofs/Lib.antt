-- The laws of the check: its groups are the clauses of well formed.
pub mod Pass
pub mod Distinct
pub mod Clauses
pub mod Regroup
pub mod Ways
pub mod Determined
