-- What stands where in the work slice.
pub mod Work
