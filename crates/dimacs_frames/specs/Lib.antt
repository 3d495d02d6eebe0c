-- Yielding: what a call tells. Yields: what stands behind a cursor, as frames. Series: calls one after the other.
pub mod Yielding
pub mod Yields
pub mod Series
