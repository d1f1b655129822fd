-- segments in flight are cuts of what is kept
pub mod Cuts
-- A part of a list that stands in two pieces
pub mod Pieces
-- the rows as a table: from the fourth on they are 8,000 ticks apart
pub mod RowTable
-- what is true of each sender stays true
pub mod Senders
-- each segment is a true cut of what was pushed
pub mod TrueCuts
-- what a sender is after each kind of call
pub mod Steps
-- what is true after any calls, one call after the other
pub mod Courses
-- what goes at rows, and what goes between them
pub mod TickLaw
-- the place that an acknowledgment names has its number
pub mod Named
