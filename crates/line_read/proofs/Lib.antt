-- Reading: the machine over a line. Program: its run is the program, wherever the input is cut. Example: document 01's.
pub mod Reading
pub mod Program
pub mod Parts
pub mod Example
-- what the loops of the code keep, and what a loop above that feeds the checker will keep
pub mod Words
pub mod Replies
pub mod Feeding
