-- From an application to what a frame's words come to (Stepping); what wrote the tables is an accepted change (Altered).
pub mod Stepping
pub mod Altered
