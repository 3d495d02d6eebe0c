-- The polarity of a literal: Signs.
pub mod Signs
