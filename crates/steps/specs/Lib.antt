pub mod Words
pub mod Numbers
pub mod Steps
