-- The rule for the outputs among some records, and for one record.
pub mod Old
