-- What the promises of the buckets cite.
pub mod Line
pub mod Answers
