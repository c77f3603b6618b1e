pub mod Classes
pub mod Tokens
pub mod Pulling
pub mod Reading
