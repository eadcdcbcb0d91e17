-- The rule of a tower, and what it answers.
pub mod Rule
pub mod Answer
