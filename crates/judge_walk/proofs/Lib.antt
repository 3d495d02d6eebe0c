-- One turn of each loop: Walks.
pub mod Walks
