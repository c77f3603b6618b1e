pub mod Meaning
pub mod Numbers
pub mod Cutting
pub mod Stores
pub mod Laws
