pub mod SpecsMeant
pub mod Sending
