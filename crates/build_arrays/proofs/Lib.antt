-- The law of a padded list that grows by one.
pub mod Slots
pub mod Determined
