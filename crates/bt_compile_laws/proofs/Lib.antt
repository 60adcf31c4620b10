pub mod Fields
pub mod Fine
pub mod Known
pub mod Leading
pub mod Places
pub mod Walked
