pub mod CountLemmas
pub mod EntryCounts
pub mod ReadsLemmas
