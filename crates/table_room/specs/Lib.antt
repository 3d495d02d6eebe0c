-- What is said of the pool's tail and of the row behind the last.
pub mod Room
