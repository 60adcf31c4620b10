pub mod Kinds
pub mod Targets
pub mod Limits
pub mod Moving
pub mod Operators
