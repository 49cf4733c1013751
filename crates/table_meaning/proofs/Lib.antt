pub mod Meets
pub mod Walked
pub mod Leaves
pub mod Agree
pub mod Objects
pub mod Whole
pub mod Claims
pub mod Rightly
