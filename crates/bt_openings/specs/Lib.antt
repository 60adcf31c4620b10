pub mod Objects
pub mod Opened
pub mod Openings
pub mod Plan
