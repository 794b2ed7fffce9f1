pub mod Rows
pub mod Starts
pub mod Judging
pub mod Filtering
pub mod Working
