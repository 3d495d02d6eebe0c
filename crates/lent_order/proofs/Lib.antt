-- The laws of the sort: what its loops keep (Sorting), what stays of a list in another order (Shuffles), that a state stays one (Alike),
-- and that rows with no id twice can be arranged (Arranged).
pub mod Sorting
pub mod Shuffles
pub mod Alike
pub mod Arranged
