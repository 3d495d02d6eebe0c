-- Spelling: a word by its bytes. Line: the words of the problem line, one after the other.
pub mod Spelling
pub mod Line
