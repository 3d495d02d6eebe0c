-- A frame on the rows of what is lent (Running), sizes in and out of range (Sizes), and from the rows put back to the calls (Stepped, Opening).
pub mod Running
pub mod Sizes
pub mod Stepped
pub mod Opening
