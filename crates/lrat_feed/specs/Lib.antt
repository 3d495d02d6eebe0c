-- What feeding a proof to the working table comes to.
pub mod Feeding
