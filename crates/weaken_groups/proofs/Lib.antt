pub mod Due
pub mod Groups
