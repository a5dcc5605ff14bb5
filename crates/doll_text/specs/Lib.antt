pub mod Bytes
pub mod Gives
pub mod Names
pub mod Segments
pub mod Steps
