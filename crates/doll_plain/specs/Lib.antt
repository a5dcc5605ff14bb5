pub mod Direct
pub mod Pages
pub mod Variables
