pub mod Levels
pub mod Nodes
pub mod Opening
pub mod Parts
pub mod Routes
pub mod Typed
