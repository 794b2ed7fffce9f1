pub mod Numbering
pub mod Seeding
