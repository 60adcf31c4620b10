pub mod Distinct
pub mod Lists
pub mod Numbers
pub mod Slices
pub mod Sorts
