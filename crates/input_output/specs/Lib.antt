pub mod Reading
pub mod Sink
pub mod Source
pub mod Store
pub mod Constants
pub mod Objects
