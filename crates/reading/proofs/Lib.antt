pub mod Given
pub mod Outcomes
