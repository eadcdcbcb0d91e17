-- What a call of encode finds before it writes.
pub mod Before
