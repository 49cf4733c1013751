pub mod Texts
pub mod Small
pub mod Strings
pub mod Reaches
