pub mod Lines
pub mod Numbers
pub mod Pieces
pub mod Scripts
pub mod Storable
