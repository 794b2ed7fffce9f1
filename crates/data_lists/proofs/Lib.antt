pub mod Laws
pub mod Linking
pub mod Appending
pub mod Following
pub mod Returning
