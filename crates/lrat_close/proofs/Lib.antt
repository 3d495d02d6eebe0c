-- The questions that a line is asked (Codes), and the table opened empty (Emptying).
pub mod Codes
pub mod Emptying
