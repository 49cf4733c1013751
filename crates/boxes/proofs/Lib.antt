pub mod Sizes
pub mod Walks
pub mod Texts
pub mod Searches
pub mod Within
pub mod Parts
