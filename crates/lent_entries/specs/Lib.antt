-- An entry of the lent table, as a row, and what it holds of the pool.
pub mod Lent
