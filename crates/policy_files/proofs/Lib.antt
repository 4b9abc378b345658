pub mod UnmadeLemmas
