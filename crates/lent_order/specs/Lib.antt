-- What the sort says of rows.
pub mod Orders
