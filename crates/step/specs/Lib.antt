-- What a frame of any words comes to.
pub mod Steps
