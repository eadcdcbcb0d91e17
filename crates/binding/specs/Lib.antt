-- The answers as the binding's structs hold them.
pub mod Held
