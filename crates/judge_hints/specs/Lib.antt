-- A target made false.
pub mod Target
