pub mod Promises
pub mod Runs
pub mod Clashes
pub mod Writing
pub mod Prices
