pub mod Keys
pub mod Sites
pub mod Names
pub mod Fragments
pub mod Entries
