-- The public calls: what each comes to, for every input (Calls). Running has what is said of the rows below them.
pub mod Calls
pub mod Running
