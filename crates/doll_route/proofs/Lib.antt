pub mod Apart
pub mod Digits
pub mod Distinct
pub mod Kept
pub mod Parsing
pub mod Patterns
pub mod Search
pub mod Values
