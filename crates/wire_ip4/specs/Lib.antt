-- ICMP messages (RFC 792)
pub mod Message
-- IPv4 packets (RFC 791, section 3.1)
pub mod Packet
-- the values of the crate as contracts see them
pub mod Seen
