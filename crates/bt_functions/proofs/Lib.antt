pub mod Ascii
pub mod Placing
pub mod Steps
pub mod Sorted
