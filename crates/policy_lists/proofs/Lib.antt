pub mod RowLemmas
pub mod LineLemmas
pub mod NodeLemmas
pub mod ListLemmas
pub mod NumberedLemmas
