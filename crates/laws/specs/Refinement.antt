-- Old buckets linked over new ones, old outputs extended.
pub mod Relinks
pub mod Patches
pub mod Extends
