-- What is left of WEAKEN's check behind the row of its clause.
pub mod Behind
