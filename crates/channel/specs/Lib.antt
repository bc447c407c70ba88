pub mod States
pub mod Line
pub mod Faults
pub mod Codes
pub mod Served
pub mod Listed
pub mod Stand
pub mod Laws
