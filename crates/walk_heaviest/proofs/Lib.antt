pub mod Bare
pub mod FirstSweep
pub mod Settled
