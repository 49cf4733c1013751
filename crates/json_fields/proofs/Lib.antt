pub mod Keys
pub mod Decimals
pub mod Figures
pub mod Sought
