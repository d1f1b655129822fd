-- how a call is answered
pub mod Answering
-- calls on the device as callers make them
pub mod OnSnp
-- calls on MNP as callers make them
pub mod OnMnp
-- calls on ARP as callers make them
pub mod OnArp
-- the stack as contracts see it, and its calls
pub mod Stacks
-- what a heard frame and a tick leave
pub mod Events
-- what ARP sends, as frames for MNP
pub mod Carries
-- tokens that have ended
pub mod Fires
-- what goes to the link
pub mod Sends
-- lists of events, and the tokens that they took in and gave back
pub mod Traces
