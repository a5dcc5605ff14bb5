pub mod Slotted
pub mod Mapped
