pub mod Law
pub mod Known
pub mod Applied
pub mod Lined
pub mod Loop
pub mod Switching
pub mod Rules
