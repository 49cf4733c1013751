pub mod Layout
pub mod FirstWalk
pub mod Examples
