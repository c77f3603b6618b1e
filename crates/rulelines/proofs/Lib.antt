pub mod Empty
pub mod Parsed
pub mod Naming
