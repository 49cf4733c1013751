pub mod Sorted
pub mod Tags
