-- the stream's end, as a window tells it
pub mod Ends
-- what an honest peer sends of its stream
pub mod Peer
-- a receiver, as others see it
pub mod Receiver
-- what a receiver stands for after any list of cuts and takes
pub mod Steps
-- the stream that a peer's segments make, by places (RFC 9293, section 3.4)
pub mod Stream
