pub mod Grammar
pub mod Items
pub mod Refusals
pub mod Tool
pub mod Rows
pub mod Constants
pub mod Values
pub mod Words
