-- Words that are numbers, of any length (Numbers), and what is told of them (Told).
pub mod Numbers
pub mod Told
