pub mod Recorded
pub mod Growing
pub mod Taken
pub mod Replays
pub mod Reopened
pub mod Places
pub mod Loads
