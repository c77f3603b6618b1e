pub mod Levels
pub mod Shortcuts
