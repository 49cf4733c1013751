pub mod Rows
pub mod Mapped
pub mod Examples
