mod Rows
pub mod Sets
pub mod ClassLemmas
pub mod BracketLemmas
pub mod TokenLemmas
pub mod BuildingLemmas
pub mod StartLemmas
pub mod ReadingLemmas
pub mod ShapeLemmas
pub mod GrammarLemmas
pub mod FaultLemmas
pub mod LiteralLemmas
pub mod PartsLemmas
pub mod BehindLemmas
pub mod KeptLemmas
pub mod PlainLemmas
pub mod RestLemmas
pub mod Sending
