pub mod ClockReadings
pub mod Keeping
pub mod Made
pub mod Served
