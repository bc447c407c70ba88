pub mod Chaining
pub mod Cutting
pub mod Imaging
pub mod Packing
pub mod Wording
