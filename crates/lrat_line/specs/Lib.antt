-- What is told of the words of a line.
pub mod Lines
