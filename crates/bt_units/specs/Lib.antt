pub mod Ends
pub mod Expected
pub mod Fields
pub mod Input
pub mod Text
