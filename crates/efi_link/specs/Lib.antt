-- which Ethernet addresses are which
pub mod Addresses
-- links in memory, as others see them
pub mod Tapes
-- what a link shows, and what one send and one receive do to it
pub mod Wires
