-- the packets that a datagram is sent as
pub mod Cutting
-- values as contracts see them
pub mod Sent
