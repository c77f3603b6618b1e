pub mod Moves
pub mod Parts
pub mod Loops
pub mod Arms
pub mod Lines
