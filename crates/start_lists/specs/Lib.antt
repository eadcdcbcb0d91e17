-- The words of the literals lent, and their combined list.
pub mod Literals
pub mod Lines
