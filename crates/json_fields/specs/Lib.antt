pub mod Fields
pub mod Whole
pub mod Sought
