-- which addresses and masks are which (RFC 1122, section 3.2.1.3; RFC 4632, section 3.1)
pub mod Addresses
-- sums whose carries aren't brought back yet (RFC 1071, section 2)
pub mod Carries
-- the Internet checksum (RFC 1071, section 1)
pub mod Checksum
-- the names of hosts (RFC 1035, section 2.3.4): labels joined by dots
pub mod HostNames
-- what a reader of a format answers
pub mod Reads
-- how a call answers, by the first refusal whose condition holds
pub mod Refusals
-- what a writer of a format does
pub mod Writes
