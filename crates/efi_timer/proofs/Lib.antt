-- of three timers it doesn't matter which two are compared first
pub mod Orders
