pub mod Limits
pub mod Lines
