-- What an operation's application promises.
pub mod Applied
