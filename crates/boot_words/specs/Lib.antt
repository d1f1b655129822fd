pub mod Captures
pub mod Grammar
pub mod Lines
pub mod Numbers
pub mod Parts
pub mod Shape
pub mod Tasks
