-- what a command that follows a text answers is what a command answers
pub mod Followed
-- what a verdict rules out
pub mod Exact
-- an input that was read in pieces
pub mod Inputs
-- nothing is read or written for want of memory
pub mod Memory
-- what `extract` answers is what a command answers
pub mod Ran
-- what was seen is what is written
pub mod Successes
-- a text that was read in pieces
pub mod Texts
-- what was written for an input
pub mod Written
