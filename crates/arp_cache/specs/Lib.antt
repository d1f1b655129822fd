-- a list of entries, what becomes of one with time, and which goes first
pub mod Entries
-- the rules of reception, of calls and of a full cache
pub mod Caches
