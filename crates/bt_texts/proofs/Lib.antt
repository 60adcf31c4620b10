pub mod Characters
pub mod Cuts
pub mod Ends
pub mod Gathered
pub mod Numerals
pub mod Plain
pub mod Readings
pub mod Utf8
