pub mod Free
pub mod Graphs
