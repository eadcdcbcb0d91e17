-- The laws of words copied, set aside and put back.
pub mod Copying
pub mod Saving
pub mod Backs
pub mod Determined
