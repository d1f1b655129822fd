-- the removal of several routes
pub mod Removing
-- one step of a walk over children, or over tokens
pub mod Steps
