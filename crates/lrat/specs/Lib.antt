-- Document 02, request 3. Lines: from the bytes of a proof to its lines, and a line to an addition or a deletion. Checking: what a line asks, and what a proof
-- comes to against a text of clauses. Machine: the same as a machine over bytes. Kept: what is kept of a line in lent memory.
pub mod Lines
pub mod Checking
pub mod Machine
pub mod Kept
