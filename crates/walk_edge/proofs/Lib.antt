pub mod Late
pub mod Handing
