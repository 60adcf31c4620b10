pub mod Intakes
pub mod Tales
