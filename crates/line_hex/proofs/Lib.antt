-- The laws of digits and words: the value of several digits, and a table of values (Digits); the digits written read back (Written); two's complement, there
-- and back (Signed).
pub mod Digits
pub mod Written
pub mod Signed
