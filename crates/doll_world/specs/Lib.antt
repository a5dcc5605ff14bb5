pub mod Worlds
pub mod Renderers
