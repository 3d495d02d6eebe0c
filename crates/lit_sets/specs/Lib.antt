-- The assignment and the set of literals that words hold: Words.
pub mod Words
