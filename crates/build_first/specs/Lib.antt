-- What a first build is handed.
pub mod Ready
