pub mod Endless
pub mod Layers
pub mod Leading
pub mod Levels
pub mod Ranges
