pub mod Parts
pub mod Leaving
pub mod Answers
