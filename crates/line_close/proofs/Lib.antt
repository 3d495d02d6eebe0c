-- No true variable past V (Past), and from what a step promises to the reply of its line (Replying).
pub mod Past
pub mod Replying
