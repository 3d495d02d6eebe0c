-- Left: the clauses of a text that are left behind a cursor. Adding: they are added one by one, and each asks for room alone. Turns: so the tables do.
-- Opening: a text that was judged, and the empty table for it.
pub mod Left
pub mod Adding
pub mod Turns
pub mod Opening
