-- The laws of the list walks, and the order of the refusals.
pub mod Walk
pub mod Order
pub mod Listing
pub mod Determined
