-- Whether a proof is being read (Reading); the tables stay as large over it (Sizes). From feeding the working table to the rows taken in (Running), from
-- filling it to the rows and to what is lent (Opening), and from the rows put back to what is lent (Giving). Calls one after the other (Chains); any two outcomes
-- agree (Agreement).
pub mod Reading
pub mod Sizes
pub mod Running
pub mod Giving
pub mod Opening
pub mod Chains
pub mod Agreement
