pub mod Messages
pub mod Openings
pub mod Packs
pub mod Answers
pub mod Spans
