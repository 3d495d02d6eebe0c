-- The laws of the lent table: a part of the pool that may stop short (Parts), the two loops that copy (Copying). What is lent, taken in and put back: Lending.
pub mod Parts
pub mod Copying
pub mod Lending
