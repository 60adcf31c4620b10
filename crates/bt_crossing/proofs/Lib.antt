pub mod Mappings
pub mod Patterns
pub mod Ready
