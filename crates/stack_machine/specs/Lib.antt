pub mod Works
pub mod Stack
