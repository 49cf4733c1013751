pub mod Utc
pub mod Examples
