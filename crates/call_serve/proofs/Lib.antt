-- Bytes after bytes (Onward), call by call (Feeding) and read by read (Reading), and from the working table to what goes back over the lent one (Back).
pub mod Onward
pub mod Feeding
pub mod Reading
pub mod Back
