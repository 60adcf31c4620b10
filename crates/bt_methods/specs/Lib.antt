pub mod Arguments
pub mod Methods
pub mod Outcomes
