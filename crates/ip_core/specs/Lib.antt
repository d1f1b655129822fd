pub mod Bytes
pub mod Datagrams
pub mod Frames
pub mod Inside
pub mod Pools
pub mod Routing
pub mod Seen
pub mod Standing
