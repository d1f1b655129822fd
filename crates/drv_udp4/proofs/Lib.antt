-- one step of a walk
pub mod Steps
-- the octets of a datagram fill a room of their length
pub mod Texts
-- what is found among tokens that are lent
pub mod Ends
