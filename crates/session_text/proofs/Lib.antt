-- pieces that are fed one behind the other
pub mod Feeding
-- words one behind the other, of which there are at most so many
pub mod FewWords
-- pieces of an image, joined
pub mod Joined
