-- What a lent table's state says of it (Spelling); lines in a history (Lines), chains of calls as histories (Reaching). The theorems: any two outcomes agree
-- (Agreement), the demands over chains (Theorems), an input given in parts (Inputs), the marked outcomes (Outcomes), the frames of a text (Texts).
pub mod Spelling
pub mod Lines
pub mod Reaching
pub mod Agreement
pub mod Theorems
pub mod Inputs
pub mod Outcomes
pub mod Texts
