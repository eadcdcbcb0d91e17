-- The tests that one pass over the records makes.
pub mod Tests
