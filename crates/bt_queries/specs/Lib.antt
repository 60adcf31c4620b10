pub mod Views
pub mod Serves
