pub mod Faults
pub mod Kinds
pub mod Declaring
pub mod Declarations
