-- Words, records and what stands at a place.
pub mod Words
pub mod Images
pub mod Places
