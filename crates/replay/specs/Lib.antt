pub mod Lent
pub mod Listed
