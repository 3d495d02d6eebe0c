-- The laws of a target made false.
pub mod Target
