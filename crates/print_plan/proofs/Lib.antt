pub mod Cells
pub mod Limits
pub mod Listings
