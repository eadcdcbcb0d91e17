-- The laws of the tests of an encode.
pub mod Ways
pub mod Idle
pub mod Tests
pub mod Determined
