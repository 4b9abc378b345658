pub mod GrammarLemmas
pub mod LetterLemmas
pub mod OperandCounts
pub mod RefusalLemmas
pub mod ValueCounts
