-- The laws of nodes in a slice.
pub mod Reading
pub mod Filling
pub mod Former
pub mod Determined
