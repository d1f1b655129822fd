-- the device as contracts see it, and what its calls answer and leave
pub mod Devices
-- what one sending of the queue's front does to the device and the link
pub mod Flushes
