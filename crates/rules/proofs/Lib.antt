-- What the promise of the one function allows.
pub mod Determined
