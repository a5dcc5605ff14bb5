pub mod Choices
pub mod Depths
pub mod Levels
pub mod Lives
pub mod Parts
pub mod Templates
