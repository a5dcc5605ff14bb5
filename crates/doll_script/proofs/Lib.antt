pub mod Digits
pub mod Jsons
pub mod Made
pub mod Texts
