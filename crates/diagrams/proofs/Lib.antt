pub mod Sets
pub mod Growth
pub mod Operations
pub mod Makings
