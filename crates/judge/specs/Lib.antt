pub mod Video
pub mod Judge
pub mod Means
pub mod Grounds
pub mod Examples
