-- pieces that are fed one behind the other
pub mod Feeding
