pub mod Shown
pub mod Standing
