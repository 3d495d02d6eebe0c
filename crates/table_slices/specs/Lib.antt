-- What the small writers do.
pub mod Writes
