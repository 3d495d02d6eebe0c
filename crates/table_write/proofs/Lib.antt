-- What each accepted frame does to entries and stack is the paper's (Changes), and what the code leaves of rows, pool and stack is that
-- (Moves), also after room was made (Roomed).
pub mod Changes
pub mod Moves
pub mod Roomed
