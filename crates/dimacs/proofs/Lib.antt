-- Words: a word that is a number. Clauses: one clause after the other. Bodies: the words behind the problem line, and the clauses that they are. Lawful: these
-- obey document 01's Terms. Writing: a text written from clauses is read back as those clauses. Adding: the frames of a text are ADDs of its clauses, which
-- a fresh opening refuses with nothing but 12 or 13. Examples: small texts.
pub mod Words
pub mod Clauses
pub mod Bodies
pub mod Lawful
pub mod Writing
pub mod Adding
pub mod Examples
