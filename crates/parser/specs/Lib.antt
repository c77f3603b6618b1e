pub mod Ahead
pub mod Parsing
