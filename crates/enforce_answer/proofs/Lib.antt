-- The laws of what enforce answers.
pub mod Bits
pub mod Back
pub mod Finish
pub mod First
pub mod Answers
pub mod Held
pub mod Determined
