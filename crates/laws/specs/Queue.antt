-- The queue: its runs, what it keeps, what it fills.
pub mod Runs
pub mod Loads
pub mod Gathers
pub mod Fills
pub mod Several
