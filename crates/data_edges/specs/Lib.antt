pub mod Words
pub mod Serial
