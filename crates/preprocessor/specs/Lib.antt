pub mod Plain
pub mod Represented
