pub mod Sums
pub mod Vandermonde
pub mod Patches
pub mod Distance
pub mod Cycle
pub mod PlaceLists
pub mod Ranges
pub mod Recursion
