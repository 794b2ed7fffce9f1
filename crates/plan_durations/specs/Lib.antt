pub mod Delays
