-- which offer a station takes
pub mod Choices
-- where the octets of an option lie in a room
pub mod Filling
-- the messages by which a server offers and gives a lease (RFC 2131, section 4.3.1)
pub mod Granted
-- leases (RFC 2131, section 3.1; RFC 2132)
pub mod Leases
-- what the octets of a message are read as
pub mod Meaning
-- DHCP messages (RFC 2131, section 2): 236 octets of fixed fields, a cookie of four, and options
pub mod Message
-- options one behind the other (RFC 2132, section 2): a code, the length of the value, the value
pub mod Options
-- what a server's message says to a station (RFC 2131, section 3.1)
pub mod Replies
-- the messages that a station sends (RFC 2131, section 4.4)
pub mod Sent
-- the octets of a message (RFC 2131, section 2; RFC 2132, section 2)
pub mod Spelling
-- one step of the walk over options
pub mod Walk
