pub mod Plan
pub mod Outside
pub mod Run
pub mod Complete
pub mod Stages
