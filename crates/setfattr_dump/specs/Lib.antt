pub mod Grammar
pub mod Reading
pub mod ReadsBack
pub mod SoFar
pub mod Texts
pub mod Values
pub mod Constants
