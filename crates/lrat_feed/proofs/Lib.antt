-- What a word and a line do to the session that a reader and the tables hold.
pub mod Sessions
