-- The laws of the working table, bottom up: entries and the stack over them (Facts to Stacked), rows and pool as lists (Rows), parts that do not
-- overlap (Overlap), the clauses of a place (Clauses), what readers may lean on (Readers), what writers may (Refits), the empty table (Empty), rows behind
-- a table's own (Behind), and that what is spelled obeys Terms (Obeys).
pub mod Facts
pub mod Places
pub mod Entries
pub mod Finding
pub mod Stacked
pub mod Rows
pub mod Overlap
pub mod Clauses
pub mod Readers
pub mod Refits
pub mod Empty
pub mod Behind
pub mod Obeys
