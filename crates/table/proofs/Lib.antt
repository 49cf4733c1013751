pub mod Lent
pub mod Known
pub mod Checks
pub mod Lengths
