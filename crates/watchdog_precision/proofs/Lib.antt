-- What a well formed state and store give the calls that read them.
pub mod Formed
pub mod Answers
pub mod Determined
