pub mod Digits
pub mod LineLaw
