-- The allowed set and what a hint names in it; how propagation ends.
pub mod Scope
pub mod Look
