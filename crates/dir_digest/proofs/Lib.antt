pub mod SpelledLemmas
pub mod ListingLemmas
pub mod ReadLemmas
pub mod AlikeLemmas
pub mod NulLemmas
pub mod Sending
