pub mod Compiled
pub mod Numbers
