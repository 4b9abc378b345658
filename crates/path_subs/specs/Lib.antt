pub mod Listed
pub mod SubGrammar
pub mod SubLines
pub mod Subs
