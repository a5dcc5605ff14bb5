pub mod Framing
pub mod Hashes
pub mod Registries
