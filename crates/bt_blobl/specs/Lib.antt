pub mod Inside
pub mod Meaning
pub mod Promise
pub mod Text
