pub mod FitLaws
pub mod StemLemmas
