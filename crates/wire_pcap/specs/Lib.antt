-- Classic pcap captures of Ethernet frames (the file format of libpcap, "pcap-savefile"), in either byte order, with
-- times in microseconds or nanoseconds
pub mod Grammar
-- a reader by its fields
pub mod Inside
-- by what a header is known
pub mod Marks
-- what was found at the front of octets, and the records that were made of them
pub mod Next
-- where octets leave the grammar of captures
pub mod Place
-- a reader of captures, as others see it
pub mod Reading
-- how far a call of the reader went in the octets at hand
pub mod Stands
-- how a reader goes on, a record at a time
pub mod Steps
-- the moments of a capture's records, in order
pub mod Ticks
-- what is written: captures that are little-endian, in microseconds
pub mod Written
