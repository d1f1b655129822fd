-- a packet that was written is read again
pub mod Again
-- errors have one text
pub mod Errors
-- options one after the other
pub mod Joining
-- numbers of decimal digits
pub mod Numbers
-- texts and their zeros
pub mod Splitting
