pub mod Later
pub mod Machine
pub mod Values
