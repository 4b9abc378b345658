mod Room
mod Keeps
mod Parents
mod Whole
mod OneMore
pub mod Sending
