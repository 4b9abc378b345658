pub mod Settled
pub mod Sending
