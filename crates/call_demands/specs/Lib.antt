-- Chains of public calls (Chains), what is heard of them (Heard), an input given in parts (Inputs), what is said to frames in the marked outcomes' terms
-- (Marked), and the frames of a text, given one after the other (Texts).
pub mod Chains
pub mod Heard
pub mod Inputs
pub mod Marked
pub mod Texts
