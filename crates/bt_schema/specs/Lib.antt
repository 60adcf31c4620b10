pub mod Lines
pub mod Pointer
pub mod Policies
pub mod Table
pub mod Texts
