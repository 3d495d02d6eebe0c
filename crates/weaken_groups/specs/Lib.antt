-- Which rows need a group, and what is left of the paper's groups at a word.
pub mod Groups
