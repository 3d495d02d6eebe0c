-- Checking: from what filling, feeding and opening promise to what the call does. Theorems: what holds of the call.
pub mod Checking
pub mod Theorems
