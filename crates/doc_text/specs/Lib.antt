pub mod Ends
pub mod Reports
pub mod TraceWords
pub mod Traces
