pub mod Cleaning
pub mod Climbing
pub mod Filling
pub mod Fitting
pub mod Standing
