pub mod PlaceLemmas
pub mod ReachLemmas
