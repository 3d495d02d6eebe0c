-- The laws of signed words: Signed.
pub mod Signed
