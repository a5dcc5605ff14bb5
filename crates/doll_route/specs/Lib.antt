pub mod Drafts
pub mod Paths
pub mod Queries
pub mod Readings
pub mod Routes
pub mod Rows
