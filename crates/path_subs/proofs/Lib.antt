pub mod PlainPaths
pub mod Covering
pub mod NamesAt
pub mod SubsMeant
pub mod ListedLemmas
pub mod Sending
