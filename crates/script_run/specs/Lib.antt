-- which steps the stack can do today
pub mod Scope
-- calls of the stack that steps are
pub mod Calls
-- lines that tell what came of an event
pub mod Lines
-- the run of a script
pub mod Running
