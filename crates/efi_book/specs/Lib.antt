-- the first element of a list that passes a test
pub mod Firsts
-- to whom a token belongs: a caller, or a driver above
pub mod Owners
-- words on single tokens: which are meant, and where they go when they end
pub mod Pendings
-- what a contract sees of a book
pub mod Books
-- tokens that end one after another
pub mod Rounds
-- no call loses or doubles a token, by whatever it is told apart: its ticket, its child, its owner
pub mod Conserves
-- how a table keeps children: a slot for each key, and the keys in the order of making
pub mod Tables
-- what a contract sees of the children of a driver
pub mod Families
-- what a contract sees of an outbox
pub mod Outboxes
-- what every driver's calls answer and leave
pub mod Cores
-- the core of a driver as contracts see it
pub mod Drives
-- what may happen to a book, one act after another
pub mod Acts
-- numbers, and each token once, over any list of acts
pub mod ActLaws
-- the abort law of a book, over any list of acts
pub mod Aborts
-- nothing but an abort ends a token as aborted
pub mod Others
-- what a driver does with its core, call by call, and which acts of the book each call is
pub mod Calls
-- serials of children over any list of calls
pub mod Serials
-- what a driver inherits that is made of a core
pub mod Drivers
-- what a book, a table and a driver's children end as, where a work or a value is lent for writing
pub mod Lends
