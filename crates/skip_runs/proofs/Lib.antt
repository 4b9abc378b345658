pub mod Settled
pub mod Steps
pub mod Runs
pub mod WayLemmas
