pub mod Founds
pub mod Givens
pub mod Jsons
pub mod Readings
pub mod Schemas
pub mod Texts
pub mod Placed
pub mod Wanted
