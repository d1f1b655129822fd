-- tokens that are taken, one by one
pub mod Taken
-- steps, one after another
pub mod Runs
