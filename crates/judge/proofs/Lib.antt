pub mod Ready
pub mod Recordings
pub mod Meaning
pub mod Exact
pub mod Ignored
