pub mod Delivered
pub mod Ended
