pub mod Ops
pub mod Taken
