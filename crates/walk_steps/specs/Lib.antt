pub mod Shaped
pub mod Lists
pub mod Machine
pub mod Sound
pub mod Ends
pub mod Constants
