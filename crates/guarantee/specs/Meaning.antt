-- What literals, nodes and clauses mean.
pub mod Truth
pub mod Values
pub mod Derived
pub mod Growing
pub mod Keeping
pub mod Defining
