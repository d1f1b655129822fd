pub mod Best
pub mod Closing
pub mod Filling
pub mod Finding
pub mod Joining
pub mod Standings
pub mod Records
