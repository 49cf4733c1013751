pub mod Distances
pub mod Differing
