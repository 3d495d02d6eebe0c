-- Frames: a frame over the first words of a buffer, and what is told of it. Series: what calls one after the other hand out.
pub mod Frames
pub mod Series
