pub mod Worked
pub mod Meaning
