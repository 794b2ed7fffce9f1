pub mod Gapless
pub mod Leastless
pub mod Entered
pub mod Parts
pub mod Demands
pub mod Clashes
pub mod Pricing
pub mod Writing
