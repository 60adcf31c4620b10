pub mod Compiled
pub mod Drafts
pub mod Fields
pub mod Kinds
pub mod Made
pub mod Numbered
pub mod Reading
pub mod Sinks
