pub mod ListLemmas
mod Reached
mod Running
pub mod EndLemmas
mod SmallShape
