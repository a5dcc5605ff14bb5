mod Entries
mod Hits
mod Worlds
pub mod Renderers
