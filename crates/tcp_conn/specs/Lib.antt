-- the facts that a connection is
pub mod Connection
-- what two sides agree on: segments' sizes and windows (RFC 9293, section 3.7.1; RFC 7323, section 2)
pub mod Sides
-- a heard segment's flags, and which segments are acceptable (RFC 9293, section 3.10.7.4, first check)
pub mod Acceptance
-- which state follows which (RFC 9293, section 3.3.2)
pub mod States
-- what a cut does to a receiver
pub mod Hearing
-- what a heard segment does, by state (RFC 9293, section 3.10.7)
pub mod Segments
-- what a tick and the user's calls do (RFC 9293, section 3.10)
pub mod Calls
-- what goes out, and in which order
pub mod Owed
-- what a contract sees of a connection, and what is true of each
pub mod Inside
-- what each segment that goes is
pub mod TrueSegments
