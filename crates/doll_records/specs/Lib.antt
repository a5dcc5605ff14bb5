pub mod Commitments
pub mod Faults
pub mod Histories
pub mod Openings
