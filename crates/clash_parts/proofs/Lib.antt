pub mod Starts
pub mod Putting
pub mod Entering
pub mod Completing
