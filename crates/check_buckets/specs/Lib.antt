-- The tests of one bucket.
pub mod Links
