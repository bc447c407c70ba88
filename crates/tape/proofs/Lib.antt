pub mod Answering
pub mod Windowing
