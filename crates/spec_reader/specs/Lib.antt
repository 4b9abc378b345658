pub mod SpecGrammar
pub mod SpecLines
pub mod SpecValue
pub mod Constants
