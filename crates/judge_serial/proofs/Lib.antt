pub mod Late
pub mod Waited
pub mod Trying
