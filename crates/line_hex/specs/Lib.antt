-- Digits, words of eight and two's complement, as document 01 has them, and a table of what bytes count as: Hex.
pub mod Hex
