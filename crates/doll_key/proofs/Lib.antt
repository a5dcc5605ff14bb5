pub mod Uniqueness
pub mod Finding
