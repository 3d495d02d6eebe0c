-- Pushing: bytes of a word, one more at a time. AtOnce: a short word, read at once. Moving: what they, and the blank behind them, do to the machine.
pub mod Pushing
pub mod AtOnce
pub mod Moving
