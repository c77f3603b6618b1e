pub mod Cells
pub mod Words
pub mod Rolling
pub mod Nodes
