-- Saying: what digits say, and the word that they are. Signs: a word as a signed number. Decimals: a number that is written is read back.
pub mod Saying
pub mod Signs
pub mod Decimals
