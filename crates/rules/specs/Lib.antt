pub mod Ruled
pub mod Allowed
pub mod Turns
pub mod Read
