-- What queue, buckets, tares and root count.
pub mod Sums
pub mod Queues
pub mod Chains
pub mod Buckets
pub mod Roots
pub mod Filling
pub mod Tares
pub mod Weighing
pub mod Leaves
pub mod Halves
pub mod Lowest
