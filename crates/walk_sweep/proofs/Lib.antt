pub mod Handing
pub mod Sweeping
