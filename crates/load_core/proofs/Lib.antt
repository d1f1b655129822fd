pub mod HeadRuns
pub mod CaseLaws
pub mod Readings
pub mod Standing
pub mod Meeting
