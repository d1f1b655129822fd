-- what the lines of a script say so far, and which line may stand behind them
pub mod Drafts
-- children and tokens, told by the order of the lines that create and post
pub mod Handles
-- A reader by its fields
pub mod Inside
-- A reader of scripts, as others see it
pub mod Reading
-- what a whole script says
pub mod Scripts
-- what a child is configured with, by its protocol
pub mod Settings
-- a line of a script behind its head: a call, a moment, or a frame
pub mod Step
-- the words of a line, taken one by one from its front
pub mod Words
-- the work of a token, by the protocol of its child
pub mod Works
