-- The ends of an encode that write nothing, and that its promise leaves nothing open.
pub mod Plain
pub mod Determined
