pub mod Shape
pub mod Sized
