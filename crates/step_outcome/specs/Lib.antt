-- What a frame came to.
pub mod Told
