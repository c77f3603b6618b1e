pub mod Read
pub mod Chosen
