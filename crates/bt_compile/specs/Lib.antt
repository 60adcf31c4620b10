pub mod Compiled
pub mod Kinds
pub mod Made
pub mod Outlines
pub mod Reading
