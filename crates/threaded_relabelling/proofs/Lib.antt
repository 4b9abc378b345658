pub mod TextLemmas
pub mod Sending
