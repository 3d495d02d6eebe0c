-- What goes back over the archive's calls on proofs.
pub mod Handed
