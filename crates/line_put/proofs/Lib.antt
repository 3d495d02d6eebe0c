-- Bytes put one after the other, and what the loop over the digits of a number keeps: Writing.
pub mod Writing
