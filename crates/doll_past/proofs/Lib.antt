pub mod Succeeding
pub mod Children
pub mod Splitting
pub mod Between
pub mod Along
