-- The laws of defining.
pub mod Growth
pub mod Pairs
pub mod Defining
pub mod Determined
