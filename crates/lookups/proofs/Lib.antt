pub mod Pieces
pub mod Answers
pub mod Alike
