pub mod Nearest
pub mod Microseconds
pub mod Nearness
pub mod Edits
