pub mod Shelves
pub mod Standing
