pub mod Returned
pub mod Questions
pub mod Sizes
