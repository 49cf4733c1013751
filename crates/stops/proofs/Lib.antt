pub mod Ends
pub mod Answers
pub mod Plain
pub mod Descent
pub mod Stopping
pub mod TakenBack
pub mod Dividing
