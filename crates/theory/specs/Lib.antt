pub mod Graphs
pub mod Counts
pub mod Sweeps
pub mod Strategies
