-- What checking a proof that is read in parts comes to.
pub mod Serving
