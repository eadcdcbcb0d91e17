-- Lists laid over others, words zeroed, and that every promise has one result.
pub mod Lay
pub mod Zero
pub mod Determined
