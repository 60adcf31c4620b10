pub mod Carrying
pub mod FirstCall
pub mod HandedBack
pub mod Plans
pub mod Tales
pub mod Whole
