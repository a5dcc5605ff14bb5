pub mod Commits
pub mod Readings
pub mod Scripts
pub mod Sites
