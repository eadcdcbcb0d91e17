-- A clause written, and that the promise has one result.
pub mod Leaves
pub mod Clause
pub mod Determined
