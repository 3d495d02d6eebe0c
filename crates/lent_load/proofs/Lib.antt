-- The laws of loading: what is asked of all rows (States), the rows as they were lent (Held), what a state that is lent obeys and
-- settles (Obeys), and the rows behind those of a table (Front).
pub mod States
pub mod Held
pub mod Obeys
pub mod Front
