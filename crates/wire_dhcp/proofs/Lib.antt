-- what was written is read again
pub mod Again
-- texts that grow in front of a room
pub mod Cursor
-- fields of a message and the options in them
pub mod Fields
-- the options of a server's answer
pub mod Granted
-- values of one code, joined in a room
pub mod Joins
-- values of options, as they are read from a room
pub mod Values
-- the lengths of the messages that are sent
pub mod Sizes
-- steps over options
pub mod Walking
