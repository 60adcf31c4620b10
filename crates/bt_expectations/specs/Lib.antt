pub mod Conditions
pub mod Failures
pub mod Within
