pub mod Loop
pub mod MappingFaults
pub mod Readiness
pub mod Tales
pub mod Turns
pub mod Whole
