-- Which case an encode is, and what it is called with.
pub mod Case
pub mod Call
