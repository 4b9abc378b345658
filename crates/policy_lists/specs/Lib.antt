pub mod Rows
pub mod Lines
pub mod Nodes
pub mod Lists
pub mod Numbered
