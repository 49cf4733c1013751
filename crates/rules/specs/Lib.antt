pub mod Limits
pub mod Records
pub mod Rules
pub mod Grounds
pub mod Lookups
pub mod Absent
pub mod Walks
