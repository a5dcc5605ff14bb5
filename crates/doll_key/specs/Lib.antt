pub mod Components
pub mod Keys
pub mod Reading
pub mod Uniqueness
