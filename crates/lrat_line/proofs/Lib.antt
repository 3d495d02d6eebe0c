-- What a number does, by the line's phase: among the literals, among the hints, among deleted ids. Words: that each is the machine's step.
pub mod Literals
pub mod Hints
pub mod Deletions
pub mod Words
