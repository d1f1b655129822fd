-- rounds of requests, and what is due for one at a moment
pub mod Rounds
-- messages that wait for an address, and whose they are
pub mod Waits
-- what waits as a whole, and what each call and each moment makes of it
pub mod Unresolved
-- lists of acts, and what holds throughout them
pub mod Acts
