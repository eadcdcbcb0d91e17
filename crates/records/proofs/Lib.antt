-- The laws of the relation that contracts cite.
pub mod Image
pub mod Read
pub mod Grow
pub mod Step
pub mod Entry
pub mod Small
pub mod Leaves
pub mod Agree
pub mod Determined
