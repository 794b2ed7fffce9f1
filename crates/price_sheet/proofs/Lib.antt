pub mod Plans
pub mod Sheets
