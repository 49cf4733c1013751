pub mod Chains
pub mod First
pub mod Own
