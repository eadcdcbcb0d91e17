-- The laws of the coarse bound and of a divisor set.
pub mod Bound
pub mod Divisor
pub mod Determined
