pub mod Tree
pub mod Parsed
pub mod Answer
pub mod Names
pub mod Claims
pub mod Examples
pub mod Grounds
