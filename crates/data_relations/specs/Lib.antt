pub mod Rows
pub mod Sets
