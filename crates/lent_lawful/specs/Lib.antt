-- What is asked of one row, by itself: Rights.
pub mod Rights
