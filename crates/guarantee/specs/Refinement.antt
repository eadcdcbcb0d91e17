-- What a refinement keeps.
pub mod Patching
pub mod Extending
pub mod Weights
pub mod Whole
pub mod Keeps
