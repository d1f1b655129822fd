-- the number of a sender's SYN stays
pub mod FirstNumbers
-- an ended connection stays as it is
pub mod Ended
