-- of three entries it doesn't matter which two are compared first
pub mod Orders
-- a list of which a front is mapped
pub mod Walks
-- what is known of an address once a packet was heard
pub mod Heard
-- the entry that goes first
pub mod First
-- an entry that isn't refused is there
pub mod Entered
