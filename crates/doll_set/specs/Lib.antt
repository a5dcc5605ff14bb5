pub mod Dependencies
pub mod Digests
pub mod Faults
pub mod Files
pub mod Order
pub mod Partials
pub mod Sets
pub mod Weights
