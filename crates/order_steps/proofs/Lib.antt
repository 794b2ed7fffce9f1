pub mod Circles
pub mod Counting
pub mod Placing
