-- What a head says of a frame's words: Head.
pub mod Head
