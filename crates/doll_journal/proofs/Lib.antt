pub mod Commits
pub mod Fields
pub mod Fronts
pub mod Parts
pub mod Repeated
pub mod Texts
