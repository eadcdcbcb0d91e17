-- The laws of the buckets.
pub mod Keys
pub mod Words
pub mod Growth
pub mod Rows
pub mod Towers
pub mod Determined
