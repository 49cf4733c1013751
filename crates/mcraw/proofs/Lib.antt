pub mod Gaps
pub mod Spans
pub mod Holds
pub mod Answers
