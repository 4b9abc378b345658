pub mod Roles
pub mod Constants
