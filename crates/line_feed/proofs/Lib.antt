-- What the loop that feeds keeps of the tables.
pub mod Tables
