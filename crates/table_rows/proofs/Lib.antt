pub mod Written
pub mod Mapped
pub mod Alike
