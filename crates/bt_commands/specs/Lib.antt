pub mod Calls
pub mod Input
pub mod Inputs
pub mod Inside
pub mod Lines
pub mod Outside
pub mod View
