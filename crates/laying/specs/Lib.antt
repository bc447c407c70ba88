pub mod Lay
pub mod Calls
pub mod Settled
