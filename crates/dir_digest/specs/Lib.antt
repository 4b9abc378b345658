pub mod Alike
pub mod Basis
pub mod Constants
pub mod Digest
pub mod Listing
pub mod ListingBytes
pub mod Listings
pub mod Spelled
