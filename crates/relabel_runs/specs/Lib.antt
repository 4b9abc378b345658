pub mod Runs
pub mod Premises
pub mod Laws
pub mod Witness
