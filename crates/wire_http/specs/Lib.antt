-- how many field lines have begun in octets that may grow to a head
pub mod Begun
-- what the octets behind a final head hold of its body, by its framing (RFC 9112, section 6.3)
pub mod Body
-- a body in chunks (RFC 9112, section 7.1)
pub mod Chunked
-- what a reader of bodies does with a piece, told of the whole list of octets that it has read
pub mod Feeding
-- what the fields of a final head say of its body: coding (RFC 9110, section 8.4; RFC 9112, section 6.1) and framing
-- (RFC 9112, section 6.3)
pub mod Fields
-- the heads of a response (RFC 9112, section 2.1, RFC 9110, section 15.2): interim ones, and the final one
pub mod Heads
-- what a reader answers of a head
pub mod Info
-- the request of a load (RFC 9112, section 3; RFC 9110, section 7.2): GET in origin form, without the fragment, the
-- user name and the password
pub mod Requests
-- the response that a stream holds (RFC 9112, sections 2.1 and 6.3): whole, as far as it is there, and bad
pub mod Response
-- what is kept of a body between two octets, and how an octet changes it
pub mod Stages
-- the URIs that a load can be asked for (RFC 9110, section 4.2.1)
pub mod Uris
-- what a walk over the fields of a head has seen so far
pub mod Walk
