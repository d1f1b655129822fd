-- which option acknowledgment answers what was asked for (RFC 2347, section 3; RFC 2348)
pub mod Fits
-- the options of a request and of its acknowledgment (RFC 2347 to 2349)
pub mod Options
-- the six packets (RFC 1350, section 5; RFC 2347)
pub mod Packets
-- a packet as contracts see it
pub mod Seen
-- the octets of a packet, and the packets that can be sent
pub mod Spelling
-- texts: octets other than zero, ended by a zero (RFC 1350, section 5)
pub mod Texts
-- the walk over the options, one after the other
pub mod Walk
