-- What copying words promises, and what an encode sets aside.
pub mod Copies
pub mod Aside
