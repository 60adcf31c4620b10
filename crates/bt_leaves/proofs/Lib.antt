pub mod Begun
pub mod Kept
pub mod NextLeaf
pub mod Pursued
pub mod Reaching
pub mod Released
pub mod Standing
