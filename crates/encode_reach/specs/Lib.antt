-- What an encode reaches over the memory it was lent.
pub mod Reached
