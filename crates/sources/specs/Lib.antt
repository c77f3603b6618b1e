pub mod Faults
pub mod Lines
pub mod Places
pub mod Classified
pub mod Answers
