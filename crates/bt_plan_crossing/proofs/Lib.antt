pub mod Outputs
pub mod Plan
pub mod Processors
