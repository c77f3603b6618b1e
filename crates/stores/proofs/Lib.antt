pub mod Models
pub mod Runs
