pub mod Storing
pub mod Placing
pub mod Running
pub mod Closing
