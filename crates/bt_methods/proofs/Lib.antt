pub mod Gathering
pub mod Refusals
