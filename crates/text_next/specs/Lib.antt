-- Bytes as one number (Bytes), and what is told of the next word (Next).
pub mod Bytes
pub mod Next
