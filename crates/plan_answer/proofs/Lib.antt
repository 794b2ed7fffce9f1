pub mod Held
mod Overriding
mod Writing
pub mod Calls
