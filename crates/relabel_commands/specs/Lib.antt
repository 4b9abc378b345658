pub mod Constants
pub mod Samples
pub mod Tools
