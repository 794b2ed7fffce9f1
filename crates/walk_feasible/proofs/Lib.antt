pub mod Handing
pub mod Pushing
pub mod Passing
pub mod Searching
pub mod Circles
