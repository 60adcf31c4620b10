pub mod Documents
pub mod Setting
