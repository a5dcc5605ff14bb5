pub mod Frames
pub mod Names
pub mod Texts
