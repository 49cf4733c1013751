pub mod Typed
pub mod Found
