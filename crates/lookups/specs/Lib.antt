pub mod Indices
pub mod Pieces
