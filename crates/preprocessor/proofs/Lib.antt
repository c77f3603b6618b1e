pub mod Flags
pub mod Standing
