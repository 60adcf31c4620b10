pub mod Counts
pub mod Ends
pub mod Found
pub mod Meaning
pub mod Members
pub mod Own
pub mod Targets
pub mod Walk
