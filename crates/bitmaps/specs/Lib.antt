pub mod Layout
pub mod Meaning
pub mod Making
pub mod Operations
pub mod Cutting
pub mod Kept
pub mod Stores
pub mod Laws
