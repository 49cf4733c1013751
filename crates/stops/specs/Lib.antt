pub mod Undivided
pub mod Stops
pub mod Promises
