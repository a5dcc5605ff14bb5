pub mod Members
pub mod Operations
pub mod Values
pub mod Living
