-- the address of a name, and the name of an address, by an answer (RFC 1034, section 3.6.2)
pub mod Found
-- queries and answers (RFC 1035, sections 4.1.1 and 4.1.2): twelve octets, and one question of class IN
pub mod Messages
-- names in a message (RFC 1035, sections 3.1 and 4.1.4): labels with their lengths in front, up to a zero or a pointer
pub mod Names
-- one label, a zero or a pointer, in front of the octets behind it (RFC 1035, section 4.1.4)
pub mod Parts
-- rows of a message (RFC 1035, sections 3.2.1 and 4.1.3): resource records of class IN and of the types A, CNAME and PTR
pub mod Rows
-- the octets of names, queries and answers (RFC 1035, section 4.1), without pointers
pub mod Spelling
-- what is left of a name while it is written, label by label
pub mod Left
-- the questions of a station: the address of a name, and the name of an address (RFC 1035, section 3.5)
pub mod Questions
