pub mod Rows
pub mod Demands
pub mod Lent
pub mod Halving
pub mod Begun
