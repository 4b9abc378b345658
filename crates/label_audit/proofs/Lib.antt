pub mod SkipLemmas
pub mod GroupLemmas
pub mod CompareLemmas
pub mod AheadLemmas
pub mod WholeLemmas
pub mod FoundLemmas
pub mod AnswerLemmas
pub mod AgreementLemmas
