pub mod Held
pub mod Laying
pub mod Declines
pub mod Calls
pub mod Lists
