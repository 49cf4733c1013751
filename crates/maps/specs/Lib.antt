pub mod Answers
pub mod Laws
pub mod Maps
pub mod Origins
pub mod Spans
