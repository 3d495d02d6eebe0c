-- What a judgment says, and the row of the clause that a frame names.
pub mod Judged
pub mod Located
