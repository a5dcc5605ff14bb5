pub mod Tokens
pub mod Levels
pub mod Grammar
pub mod Reading
pub mod Faults
