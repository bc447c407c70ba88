pub mod Faults
pub mod Tape
pub mod Windows
