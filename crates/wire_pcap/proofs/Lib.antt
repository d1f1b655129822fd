-- a capture's header as octets
pub mod Headers
-- the moments of records, one record at a time
pub mod Moments
-- numbers as octets, in either order
pub mod Numbers
-- the moments of a capture's records never fall
pub mod Rising
-- what stands in the octets of a capture, and what can't
pub mod Splitting
-- where a reader stands after each step
pub mod Standing
-- what a bad place stays, whatever follows
pub mod Staying
-- where a reader stops, and the records in front of that
pub mod Stopping
-- records as octets
pub mod Texts
-- a capture has its records, and no others
pub mod Unique
-- what is written is in the grammar
pub mod Writing
