pub mod Pushes
pub mod Completes
