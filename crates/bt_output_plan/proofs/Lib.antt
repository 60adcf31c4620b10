pub mod Dropping
pub mod Ending
pub mod Finds
pub mod Numbering
pub mod Repeating
