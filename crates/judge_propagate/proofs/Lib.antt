-- The laws of propagation, bottom up: the allowed set, and what the steps' scopes allow; the scan of a clause; the hints in order.
pub mod Allowed
pub mod Scopes
pub mod Scan
pub mod Runs
