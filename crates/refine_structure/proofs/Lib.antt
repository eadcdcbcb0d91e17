-- The laws of an entry changed in place and of a refinement.
pub mod Bases
pub mod Renewing
pub mod Spanning
pub mod Segments
pub mod Merging
pub mod Determined
