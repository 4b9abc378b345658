pub mod AnswerLemmas
pub mod FoundLemmas
