pub mod Bytes
pub mod Modes
pub mod Pieces
