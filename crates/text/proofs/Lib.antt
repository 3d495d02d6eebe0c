-- Slices: parts of a list. Lines: where a line ends. Words: the words of a text from a place on, byte by byte. Rest: the words behind a word. Placing: lines
-- and columns.
pub mod Slices
pub mod Lines
pub mod Words
pub mod Rest
pub mod Placing
