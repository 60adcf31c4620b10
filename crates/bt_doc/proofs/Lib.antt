pub mod Built
pub mod Docs
pub mod Objects
