pub mod SampleLemmas
pub mod RehearseLemmas
