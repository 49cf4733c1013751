pub mod Orders
pub mod Beside
pub mod Bytes
