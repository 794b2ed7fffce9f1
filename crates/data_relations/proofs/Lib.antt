pub mod Gathering
pub mod Transposing
