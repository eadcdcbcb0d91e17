-- What a slice of nodes holds.
pub mod Nodes
