pub mod Blank
pub mod Filled
