pub mod Reasons
pub mod Refusals
pub mod Words
