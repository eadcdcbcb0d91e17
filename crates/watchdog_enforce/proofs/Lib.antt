-- The test of well formed in front of an answer, and the answer as the front of the scratch.
pub mod Ends
pub mod Determined
pub mod Few
