pub mod Lists
pub mod Graphs
