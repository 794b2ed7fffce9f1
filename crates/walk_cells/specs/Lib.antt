pub mod Cells
pub mod Tables
