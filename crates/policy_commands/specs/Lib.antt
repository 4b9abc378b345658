pub mod Tools
pub mod Constants
