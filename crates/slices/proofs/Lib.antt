pub mod Lists
pub mod Laid
pub mod Parts
pub mod Every
pub mod Ranges
pub mod Counts
