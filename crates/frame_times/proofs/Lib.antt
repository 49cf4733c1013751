pub mod FrameLaws
pub mod KeepLaws
pub mod ShowLaws
pub mod Steps
