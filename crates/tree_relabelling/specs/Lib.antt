pub mod Letters
pub mod Words
pub mod Found
pub mod Answer
pub mod Plan
pub mod Constants
