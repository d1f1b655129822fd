-- when a request goes again and ends
pub mod Asks
-- the station's addresses, and since when they are
pub mod Stations
-- the driver as contracts see it, and what its calls answer and leave
pub mod Arps
-- what a heard packet does
pub mod Hears
-- what ticks do
pub mod Ticks
-- the driver as a machine with moments
pub mod Timed
