pub mod Alive
pub mod Answered
pub mod Faultless
pub mod Longs
pub mod Playing
pub mod Ready
pub mod Timing
pub mod Unique
