-- Telling: from what the machine holds of the bytes that were read to what is told of them.
pub mod Telling
