-- Each row of the nine frames, and the head that stands for it: Rows.
pub mod Rows
