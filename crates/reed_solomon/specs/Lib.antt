pub mod Interleaves
pub mod Steps
pub mod Words
