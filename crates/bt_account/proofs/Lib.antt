pub mod Delivering
pub mod Owing
