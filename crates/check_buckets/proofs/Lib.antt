-- The laws of the tests of buckets.
pub mod Buckets
pub mod Determined
