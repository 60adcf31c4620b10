pub mod Agreement
pub mod Fuel
pub mod Linted
pub mod Members
pub mod Nested
pub mod Numbered
pub mod Steady
