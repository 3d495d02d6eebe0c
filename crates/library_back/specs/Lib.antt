-- What goes back over the archive's calls.
pub mod Handed
pub mod Told
