-- Frames and faults as hexadecimal lines: Lines.
pub mod Lines
