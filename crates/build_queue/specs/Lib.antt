-- The queue of a build in the work words, and what its run answers.
pub mod Queued
pub mod Gathered
