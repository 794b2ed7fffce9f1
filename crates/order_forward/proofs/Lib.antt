pub mod Anchoring
pub mod Drawing
pub mod Faults
