-- a checksum that was filled in completes the sum, and a changed word changes it
pub mod Filling
-- labels, an octet at a time
pub mod LabelLaw
-- the sum of words with its carries brought back one by one is the plain sum with all of them brought back at once
pub mod Sums
-- what stands in a room in which something was written
pub mod Written
