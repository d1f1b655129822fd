-- the kinds of works
pub mod Works
-- which addresses a datagram is for
pub mod Networks
-- which children hear a datagram, and what it does to their tokens
pub mod Hearing
-- which port a child gets
pub mod Ports
-- why calls are refused
pub mod Refusing
-- what a message that a port took nothing does
pub mod Unreached
-- the driver as contracts see it, and what its calls answer and leave
pub mod Udps
-- what ticks do
pub mod Ticks
-- the driver as a machine with moments
pub mod Timed
-- what a datagram leaves as it was
pub mod Others
