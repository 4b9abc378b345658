pub mod LookUp
pub mod Decide
pub mod Verdicts
pub mod LabelAfter
pub mod Lines
