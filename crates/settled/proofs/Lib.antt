pub mod Given
pub mod Alone
