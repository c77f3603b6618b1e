pub mod Table
pub mod Runs
pub mod Gaps
pub mod Fronts
pub mod Fuel
pub mod Pulled
pub mod Spelling
pub mod Laws
