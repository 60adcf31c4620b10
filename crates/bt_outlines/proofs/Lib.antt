pub mod Listing
pub mod Twice
