pub mod Drafts
pub mod Escape
pub mod Json
pub mod Limits
pub mod Lookups
pub mod Models
pub mod Schemas
pub mod Values
