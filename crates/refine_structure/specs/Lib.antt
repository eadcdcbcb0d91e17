-- What a refinement needs, what it promises, and what it leaves of the memory it was lent.
pub mod Based
pub mod Refined
