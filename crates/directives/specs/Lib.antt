pub mod Gaps
pub mod Directives
pub mod Written
