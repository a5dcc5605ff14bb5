pub mod Faults
pub mod Folders
pub mod Inputs
pub mod Memories
pub mod Readings
pub mod Streams
pub mod Systems
