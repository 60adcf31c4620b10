pub mod Finds
pub mod Idle
pub mod Listing
pub mod Twice
