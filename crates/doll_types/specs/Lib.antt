pub mod Types
pub mod Findings
pub mod Reached
pub mod Faults
pub mod Sound
pub mod Reachings
pub mod Ties
pub mod Sets
