pub mod Leaves
pub mod Named
pub mod Members
pub mod Loops
pub mod Stack
