-- the kinds of works, and what is wrong with a configuration or a work by itself
pub mod Works
-- where the station is in its networks
pub mod Nets
-- what is handed down: a datagram to a hop, under the next identification
pub mod Sendings
-- answers by ICMP
pub mod Icmps
-- which children hear a datagram, and what it does to their tokens
pub mod Hearing
-- what the end of a default address does to tokens
pub mod Lost
-- the driver as contracts see it, and what its calls answer and leave
pub mod Ips
-- what a packet leaves as it was
pub mod Others
