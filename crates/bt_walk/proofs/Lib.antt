pub mod Capped
pub mod Finds
pub mod Same
