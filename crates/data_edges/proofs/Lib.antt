pub mod Digits
pub mod Places
pub mod Users
pub mod Serializing
pub mod Waiting
pub mod Unions
