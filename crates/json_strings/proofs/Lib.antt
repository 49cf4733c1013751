pub mod Small
pub mod Turns
pub mod Lay
pub mod Sizes
pub mod Whole
