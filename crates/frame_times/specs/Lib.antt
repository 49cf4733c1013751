pub mod Frames
pub mod Times
pub mod Found
pub mod KeptFrames
