-- an Ethernet address is its six octets
pub mod Addresses
-- what was written is read again
pub mod Again
-- a header with nothing behind it
pub mod Alone
-- a frame is its header and its payload, and zeros behind them up to 60 octets
pub mod Padding
-- what is read spells the value: no other octets are read as it, but for what is behind them
pub mod Spelled
