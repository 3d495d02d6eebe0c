-- What giving a part, and ending the input, come to, for every input: Giving. Running has what is said of the rows below them.
pub mod Giving
pub mod Running
