pub mod Replies
pub mod Stages
pub mod Statuses
pub mod Timed
pub mod Words
