pub mod Bytes
pub mod Boxes
pub mod Places
pub mod Tracks
pub mod Walks
pub mod Examples
