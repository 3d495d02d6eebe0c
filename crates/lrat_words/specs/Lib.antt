-- What is told of the bytes of a word.
pub mod Taken
