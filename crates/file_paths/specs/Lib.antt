pub mod Path
pub mod PathFront
pub mod PathRef
pub mod PathText
pub mod Constants
