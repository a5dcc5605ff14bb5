pub mod Comes
pub mod Direct
pub mod Keys
pub mod Pages
pub mod Rendering
pub mod Runs
