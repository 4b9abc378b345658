pub mod Relabel
pub mod Skipping
pub mod Ways
