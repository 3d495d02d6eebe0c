-- The program of an input (Lines), the same as a machine over bytes (Machine), by its parts (Parts), and over lent buffers (Lent).
pub mod Lines
pub mod Machine
pub mod Parts
pub mod Lent
