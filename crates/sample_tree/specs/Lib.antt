pub mod Sample
pub mod Summary
pub mod Words
pub mod Choice
pub mod Walks
pub mod Plan
pub mod Accepted
pub mod Constants
