pub mod Completeness
pub mod InputStage
pub mod MemoryRuns
pub mod PartLemmas
pub mod RefusedRuns
pub mod WordRuns
pub mod WrittenRuns
