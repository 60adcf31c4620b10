pub mod Configured
pub mod Inside
pub mod Lines
