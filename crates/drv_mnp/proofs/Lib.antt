-- one step of a walk over children
pub mod Steps
