pub mod Moves
pub mod Resting
