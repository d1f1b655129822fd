-- what several writes or reads do to known octets, one after the other
pub mod Known
