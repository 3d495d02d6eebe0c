-- What is told of the problem line.
pub mod Told
