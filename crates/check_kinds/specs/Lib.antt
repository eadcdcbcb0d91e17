-- The test of the words of one record.
pub mod Words
