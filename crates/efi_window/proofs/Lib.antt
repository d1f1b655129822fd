pub mod Cells
pub mod Parts
pub mod Rounds
pub mod Words
