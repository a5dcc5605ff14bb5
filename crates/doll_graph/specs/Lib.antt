pub mod Graphs
pub mod Levels
