pub mod Skips
pub mod Runs
pub mod Lines
