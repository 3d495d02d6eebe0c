-- The laws of what is lent and carried, bottom up: lent sizes in range (Sizes); tests and the facts that they decide, for any list (Tests); the same of a row
-- (Judged) and of the stack's list (Listing); that what a working table leaves is a state (Stored); and what the loops keep (Ticking, Parts).
pub mod Sizes
pub mod Tests
pub mod Judged
pub mod Listing
pub mod Stored
pub mod Ticking
pub mod Parts
