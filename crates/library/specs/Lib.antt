-- What the archive's functions come to.
pub mod Exported
pub mod Texts
pub mod Proofs
