pub mod Tables
pub mod Looks
pub mod Fits
pub mod Ids
pub mod Links
pub mod Codes
