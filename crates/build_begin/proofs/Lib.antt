-- A well formed build carries itself; the waiting records found.
pub mod Begin
pub mod Found
pub mod Determined
