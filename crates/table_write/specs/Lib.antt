-- What an accepted frame does to the tables.
pub mod Moved
