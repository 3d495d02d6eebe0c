-- What an answer hands out.
pub mod Answered
