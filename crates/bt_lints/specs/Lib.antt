pub mod Adding
pub mod Lints
pub mod Names
pub mod Order
pub mod Told
