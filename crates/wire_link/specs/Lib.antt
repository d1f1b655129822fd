-- address resolution for IPv4 over Ethernet (RFC 826, "Packet format")
pub mod Arp
-- Ethernet frames with a type field (RFC 894; IEEE 802.3, clause 3.2): destination, source, type, payload
pub mod Ether
-- the values of the crate as contracts see them
pub mod Seen
