pub mod DecideLemmas
pub mod OutlineLemmas
pub mod LabelledLemmas
pub mod ClosedLemmas
pub mod WalkLemmas
pub mod ShownLemmas
pub mod RunLemmas
pub mod WitnessLemmas
