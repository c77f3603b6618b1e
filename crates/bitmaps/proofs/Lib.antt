pub mod Bits
pub mod Slots
pub mod Cuts
pub mod Refusals
pub mod Writes
pub mod Appends
pub mod Makings
pub mod Questions
