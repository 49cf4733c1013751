pub mod Value
pub mod Divided
