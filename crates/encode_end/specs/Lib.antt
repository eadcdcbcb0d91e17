-- How an encode ends.
pub mod Settled
