-- What loading promises: Loads.
pub mod Loads
