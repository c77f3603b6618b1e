pub mod Faults
pub mod Judged
pub mod Texts
pub mod Layered
pub mod Refused
