-- a datagram that was written is read again
pub mod Datagrams
-- a message in which the octets of the checksum were 0 and were filled in sums to all ones with its pseudo header
pub mod Filled
-- the options behind one of them, and what is known of options one after the other
pub mod Items
-- a message in two parts is summed with its pseudo header as the message in one piece
pub mod Parts
-- when a segment stands there, by what its readers test one after the other
pub mod Segments
-- a segment that was written is read again
pub mod Spelled
-- what was found of the options so far, joined with what the rest gives, is what all give
pub mod Walking
