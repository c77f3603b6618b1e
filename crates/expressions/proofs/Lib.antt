pub mod Joins
pub mod Terms
pub mod Laws
pub mod Cuts
