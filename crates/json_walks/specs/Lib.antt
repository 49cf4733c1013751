pub mod Walks
pub mod Left
