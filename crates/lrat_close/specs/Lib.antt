-- What is told of a line that is closed.
pub mod Closes
