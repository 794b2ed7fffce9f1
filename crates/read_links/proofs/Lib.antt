pub mod Words
pub mod Pushing
pub mod Records
pub mod Completing
