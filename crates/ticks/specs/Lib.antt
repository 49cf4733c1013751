pub mod Ticks
pub mod Allowances
pub mod Examples
