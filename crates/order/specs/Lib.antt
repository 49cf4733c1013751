pub mod Order
pub mod Meeting
pub mod Counts
pub mod Examples
