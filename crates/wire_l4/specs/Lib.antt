-- UDP datagrams (RFC 768)
pub mod Datagram
-- the options of a TCP header (RFC 9293, section 3.1; window scale: RFC 7323, section 2.2)
pub mod Options
-- the parts of a segment, before its options are known to be well-formed and once they are
pub mod Parts
-- what a checksum covers besides the message (RFC 9293, section 3.1; RFC 768)
pub mod Pseudo
-- the values of the crate as contracts see them
pub mod Seen
-- TCP segments (RFC 9293, section 3.1)
pub mod Segment
-- how a TCP segment is written (RFC 9293, section 3.1; window scale: RFC 7323, section 2.2)
pub mod Spelling
-- the walk over the options of a TCP header, one option after the other
pub mod Walk
