pub mod Rising
pub mod Verdicts
pub mod Whole
pub mod Fits
