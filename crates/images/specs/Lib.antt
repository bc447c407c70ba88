pub mod Images
pub mod Laws
