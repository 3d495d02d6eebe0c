-- What a refused part leaves and what a series of calls over a text hands out (Theorems), and that any two outcomes agree (Agreement, and ProofCalls for the
-- calls on proofs).
pub mod ProofCalls
pub mod Theorems
pub mod Agreement
