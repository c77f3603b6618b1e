pub mod Shape
pub mod Reading
pub mod Answers
