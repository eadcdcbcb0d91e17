-- Laws of numbers and literals.
pub mod Bits
pub mod Literals
pub mod Determined
