pub mod Batches
pub mod Calls
pub mod Entries
pub mod Fetches
pub mod Kept
pub mod Queue
pub mod Settings
pub mod Shares
