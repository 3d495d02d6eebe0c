-- What filling a table with the clauses of a text comes to.
pub mod Filling
