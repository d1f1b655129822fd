-- lists that are taken from their fronts
pub mod Fronts
-- no call and no frame brings the clock on
pub mod Moments
-- each token once, over any list of events
pub mod Tokens
