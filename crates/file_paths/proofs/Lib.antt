pub mod PathLemmas
pub mod PathTexts
pub mod PathMoves
pub mod PathFronts
pub mod PathLengths
pub mod Sending
