pub mod Arrays
pub mod Faults
pub mod Groups
pub mod Rows
pub mod Sending
