pub mod Pushing
pub mod Passing
pub mod Returning
pub mod Searching
