-- Definitions that the contracts of numbers cite beside those of rules.
pub mod Signed
