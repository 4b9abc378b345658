pub mod Known
pub mod StoreLemmas
pub mod FrontLemmas
