pub mod Turns
pub mod Shelving
pub mod Rooms
pub mod Nexts
