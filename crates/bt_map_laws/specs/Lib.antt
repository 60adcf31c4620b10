pub mod Environments
pub mod Nests
