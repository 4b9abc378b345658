pub mod Stages
pub mod Places
pub mod Closed
