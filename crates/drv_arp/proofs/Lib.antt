-- the moments of a request, one by one, and the lesser of three
pub mod Moments
-- lists that are walked by their places
pub mod Walks
-- the moments of a request, counted from its asking
pub mod Gaps
