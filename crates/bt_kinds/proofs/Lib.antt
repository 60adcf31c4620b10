pub mod Gathered
pub mod Fits
pub mod Zeros
