-- What an opening hands out.
pub mod Opened
