-- What linking a bucket anew, and all of them, promises.
pub mod Patched
pub mod Linked
