-- places of a stream as sequence numbers (RFC 9293, section 3.4)
pub mod Numbers
-- the window of the peer (RFC 9293, section 3.10.7.4, fifth check)
pub mod PeerWindow
-- the rows of ticks at which something goes again (RFC 6298, section 5.5: the wait is doubled, here to at most 8,000 ticks)
pub mod Rows
-- segments in flight, which stand one behind the other
pub mod Flight
-- the sender: facts of the past from which it follows what is sent when
pub mod Sender
-- what a contract sees of a sender, and what is true of each
pub mod Inside
-- the text that is sent, and its true cuts
pub mod Stream
-- A sender after any list of calls
pub mod Calls
-- between two rows nothing is sent again
pub mod Ticks
