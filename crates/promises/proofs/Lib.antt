pub mod Promises
pub mod Excluded
pub mod Runs
pub mod Clashes
pub mod Writing
pub mod Prices
mod Ties
