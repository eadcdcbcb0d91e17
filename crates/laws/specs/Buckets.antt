-- Chains of buckets, built one over another.
pub mod Chains
pub mod Next
pub mod Towers
pub mod First
