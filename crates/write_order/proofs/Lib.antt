pub mod Places
pub mod Entering
pub mod Listing
