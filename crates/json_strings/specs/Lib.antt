pub mod Texts
pub mod Left
pub mod Reading
