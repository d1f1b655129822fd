-- what was written is read again
pub mod Again
-- a mask of the low bits is a remainder
pub mod Masks
