-- Links from a node to its outputs, worked out from the records: definitions and laws that wait for the store to hold them.
pub mod Links
pub mod Slots
pub mod Walks
pub mod Turns
pub mod Finds
pub mod Counts
pub mod Cuts
pub mod Tested
pub mod Depths
pub mod Missing
pub mod Later
pub mod Through
