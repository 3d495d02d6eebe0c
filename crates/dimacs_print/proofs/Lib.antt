-- A buffer filled line by line: Filling. What one after the other comes to: Whole.
pub mod Filling
pub mod Whole
