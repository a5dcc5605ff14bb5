pub mod Depths
pub mod Nodes
pub mod Templates
pub mod Blocks
pub mod Sorting
pub mod Answering
pub mod Grouping
pub mod Passing
