-- The laws of what an encode reaches.
pub mod Reaching
pub mod Stands
pub mod Ways
pub mod Renewed
pub mod Determined
