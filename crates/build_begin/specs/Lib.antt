-- Where an encode begins, and what a build or a refinement names.
pub mod Named
pub mod Answer
