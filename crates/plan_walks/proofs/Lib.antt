mod Sourcing
mod Tables
mod Verdicts
