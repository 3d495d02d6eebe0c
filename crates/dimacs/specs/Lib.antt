-- Document 02, request 1: a DIMACS text as clauses or its first fault (Reading), its ADD frames (Frames), what is answered to them (Adding), and a text
-- written from clauses (Writing).
pub mod Reading
pub mod Frames
pub mod Adding
pub mod Writing
