-- What start writes.
pub mod Writing
