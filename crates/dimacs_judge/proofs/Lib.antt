-- Words: what a word is by itself. Stamping: the variables of a clause, by their stamps. Scanning: clauses, word by word. Judging: the whole text.
pub mod Words
pub mod Stamping
pub mod Scanning
pub mod Judging
