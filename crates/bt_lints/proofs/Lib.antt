pub mod Addings
pub mod Leading
pub mod Members
pub mod Orders
pub mod Reaching
