pub mod Mcraw
pub mod Examples
