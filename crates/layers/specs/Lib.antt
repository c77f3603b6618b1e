pub mod Faults
pub mod Fitting
pub mod Layered
pub mod Laws
pub mod Preparing
pub mod Making
