pub mod Signed
pub mod Fits
pub mod Rounded
