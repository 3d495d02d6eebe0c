-- What opening tables for a proof, and giving a part of it, come to, for every input: Parts. Running has what is said of the rows below them, Chains calls one
-- after the other.
pub mod Parts
pub mod Running
pub mod Chains
