pub mod Growing
pub mod Rendered
pub mod Turns
pub mod Wanted
