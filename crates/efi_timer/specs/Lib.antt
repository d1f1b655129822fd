-- what a contract sees of timers: a list of numbers, each with its moment
pub mod Moments
-- ticks of any machine: one after another in the definition, from one due moment to the next in the code
pub mod Ticking
-- timers as rows of a table of ticks
pub mod Rows
