pub mod ContextText
pub mod LabelSpelling
pub mod NameSets
pub mod Spelling
pub mod TypeLines
pub mod TypesMeant
pub mod WordLemmas
pub mod Sending
