-- What the working table spells and keeps: Spelled. Facts has the words that it uses.
pub mod Facts
pub mod Spelled
