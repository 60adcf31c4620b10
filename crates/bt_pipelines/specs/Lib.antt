pub mod Finished
pub mod Launched
