-- The lines that stand in a buffer: Printed.
pub mod Printed
