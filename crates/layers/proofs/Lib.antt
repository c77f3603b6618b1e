pub mod Growth
pub mod Switching
pub mod Meaning
pub mod Kept
