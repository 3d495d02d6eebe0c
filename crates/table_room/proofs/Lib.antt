-- Rows and pool are other ones and spell the same: when the parts are together (Packing) and when the rows that are gone are taken out (Squeezing).
pub mod Packing
pub mod Squeezing
