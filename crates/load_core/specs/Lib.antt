-- how a stream ends a load: the first case that it meets
pub mod Cases
-- where the final head of a stream ends
pub mod Final
-- what is kept of a stream
pub mod Taken
