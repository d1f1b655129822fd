-- what a link in memory gives next
pub mod Nexts
