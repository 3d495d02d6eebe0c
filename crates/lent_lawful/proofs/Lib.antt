-- The laws of what is asked of one row: Rights.
pub mod Rights
