pub mod Files
pub mod Names
pub mod Rules
pub mod Constants
