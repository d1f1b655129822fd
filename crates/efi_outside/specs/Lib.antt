-- when an object of the outside may answer that it failed
pub mod Causes
-- readers and writers of the system, as others see them
pub mod Edge
-- what reading a source to its end takes, and when it may answer which fault
pub mod Intake
-- the sources and sinks in memory of which some calls are to fail, as others see them
pub mod Memory
