pub mod Conversions
pub mod Texts
pub mod Encodings
