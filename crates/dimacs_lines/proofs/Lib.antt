-- What the loop over a frame's words keeps (Framing); that printed frames read back as those frames, and what the program answers to them (ReadBack); that
-- the frames of a text fit their lines (Printed).
pub mod Framing
pub mod ReadBack
pub mod Printed
