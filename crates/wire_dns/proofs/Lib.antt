-- labels, as they are written
pub mod Labels
-- options, and choices by tests
pub mod Options
-- runs of labels, one after the other, and the pointers between them
pub mod Runs
-- A zero, a label or a pointer in front of the octets behind it
pub mod Spelling
-- records and rows, one after the other
pub mod Walks
-- messages, as they are written
pub mod Written
-- A name and a question that were written are read again
pub mod Again
-- the name of an address can be written
pub mod Reverse
-- A header and a question that were written are read again
pub mod AskedAgain
