pub mod Order
pub mod Up
pub mod Bits
pub mod Ranges
pub mod Signs
pub mod Quotients
