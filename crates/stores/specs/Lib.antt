pub mod Faults
pub mod Sets
pub mod Model
pub mod Outcome
pub mod Steps
pub mod Joined
pub mod Making
