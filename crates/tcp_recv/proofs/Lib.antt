pub mod Boards
pub mod Peers
pub mod Standing
pub mod Courses
