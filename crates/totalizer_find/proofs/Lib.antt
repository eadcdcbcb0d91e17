-- The laws of finding.
pub mod Walk
pub mod Determined
