-- What the loops look for: Records.
pub mod Records
