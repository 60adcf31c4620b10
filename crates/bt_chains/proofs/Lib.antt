pub mod Walks
pub mod Moves
pub mod Afters
pub mod Fresh
pub mod Outcomes
