-- the kinds of works
pub mod Works
-- the frame in which a payload goes
pub mod Frames
-- which children hear a frame, and what it does to their tokens
pub mod Hearing
-- the driver as contracts see it, and what its calls answer and leave
pub mod Mnps
-- what a frame leaves as it was
pub mod Others
