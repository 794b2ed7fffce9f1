pub mod Words
pub mod Completed
