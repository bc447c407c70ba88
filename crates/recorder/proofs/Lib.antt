pub mod Asking
pub mod Desks
pub mod Resting
pub mod Whole
