-- The laws of linking buckets anew.
pub mod Slots
pub mod Renewing
pub mod Linking
pub mod Halves
pub mod Carrying
pub mod Determined
