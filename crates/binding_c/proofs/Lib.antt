-- Lemmas of the exports.
pub mod Determined
