pub mod Keeping
pub mod Bounds
