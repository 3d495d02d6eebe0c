-- The laws of the small writers.
pub mod Slices
