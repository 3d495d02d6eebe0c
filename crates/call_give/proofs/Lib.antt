-- From feeding the working table to the rows taken in (Running), sizes in and out of range (Sizes), and from the rows put back to the call (Giving).
pub mod Running
pub mod Sizes
pub mod Giving
