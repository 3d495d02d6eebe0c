-- What is told of the clauses of a text.
pub mod Told
