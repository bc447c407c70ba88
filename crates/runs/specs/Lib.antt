pub mod Run
pub mod Stand
