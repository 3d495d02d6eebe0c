-- How the walk makes an answer.
pub mod Mending
