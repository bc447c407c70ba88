pub mod Lays
pub mod Laid
pub mod Records
pub mod Runs
pub mod Bounds
pub mod Alone
