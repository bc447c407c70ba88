pub mod Following
pub mod Carrying
pub mod Answering
pub mod Obeying
pub mod Running
pub mod Whole
