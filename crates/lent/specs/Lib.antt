-- When what is lent and carried is a state, and which: State. Stored has what is carried on when a working table is stored back, Marks how overlap is told.
pub mod State
pub mod Stored
pub mod Marks
