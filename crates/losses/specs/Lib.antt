pub mod Faults
pub mod Losses
