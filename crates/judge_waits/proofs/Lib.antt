pub mod Posed
pub mod Waiting
