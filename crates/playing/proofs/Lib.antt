pub mod Comes
pub mod Grows
pub mod Promising
pub mod ReadBack
