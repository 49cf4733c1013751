pub mod Refused
pub mod Rows
pub mod Single
pub mod Which
pub mod Lawful
