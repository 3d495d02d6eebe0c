-- The laws of the definitions, and the theorems over them. Theorems states what a reader wants to know; the others are how it is shown.
pub mod Lists
pub mod Literals
pub mod Held
pub mod Propagation
pub mod Checks
pub mod Reaching
pub mod Sound
pub mod Places
pub mod Shaped
pub mod Kept
pub mod Past
pub mod Meaning
pub mod Theorems
pub mod Outcomes
pub mod Codes
pub mod Lasting
