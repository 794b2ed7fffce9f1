pub mod Heights
pub mod Tables
pub mod Values
