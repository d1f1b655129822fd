-- for `run`: what the words ask for, and what is answered to them, command by command
pub mod Commands
-- what a command that is built answers, whichever it is
pub mod Running
-- the parties to a call
pub mod Parties
-- the command `extract`
pub mod Extract
-- a command that follows a text
pub mod Texts
-- the command `script`
pub mod Scripts
-- the report of `extract`
pub mod Reports
-- a capture on whose connection the peer speaks one stream
pub mod HonestPeers
-- for the machine: an input in pieces
pub mod Streaming
-- and what came of it
pub mod Watched
