pub mod Claiming
pub mod Rule
pub mod Answers
