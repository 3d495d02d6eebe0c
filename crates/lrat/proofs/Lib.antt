-- A word of bytes as the machine hears it.
pub mod Heard
-- A line's bytes as its words, taken.
pub mod Fed
-- Numbers up to a 0, heard.
pub mod Closing
-- What every word leaves.
pub mod Onward
-- The literals of a line, one by one.
pub mod Literals
-- Its hints, one by one.
pub mod Hints
-- The ids of a deletion, one by one.
pub mod Deleted
-- The end of an addition.
pub mod Additions
-- A line, word by word.
pub mod Lines
-- The run over a proof.
pub mod Runs
-- Both texts.
pub mod Whole
-- An accepted proof means that the text has no model.
pub mod Sound
-- Small proofs, by computing.
pub mod Examples
