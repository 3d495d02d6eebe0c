-- Loops over literals (Reading), words checked up to the first that is faulty (Faults), and cleanness from either side (Clean).
pub mod Reading
pub mod Faults
pub mod Clean
