pub mod Standings
pub mod Refusals
