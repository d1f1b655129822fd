-- the first message for a next hop
pub mod Firsts
-- moments at which nothing is due
pub mod Timed
-- no act loses or doubles a message
pub mod Conserves
-- what holds throughout
pub mod Sound
-- the requests that a tick brings
pub mod Asking
