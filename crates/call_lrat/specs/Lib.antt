-- What checking a proof over lent tables comes to, for every input.
pub mod Checks
