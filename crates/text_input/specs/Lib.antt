-- Input: what is told of the input that was read.
pub mod Input
