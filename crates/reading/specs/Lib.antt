pub mod Arrays
pub mod Outcomes
pub mod Groups
pub mod Laws
