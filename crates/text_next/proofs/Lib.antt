-- Bytes: as one number. Tops: their highest bits. Digits: the last bytes of eight, and what they say. Short: a short word that is a number. Gaps: the next
-- word behind any gap, or behind one blank.
pub mod Bytes
pub mod Tops
pub mod Digits
pub mod Short
pub mod Gaps
