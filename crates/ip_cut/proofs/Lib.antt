-- the packet of each number
pub mod Numbered
-- the packets' octets are the datagram's
pub mod Octets
-- hearing the packets gives the datagram
pub mod Rejoined
