pub mod Pieces
pub mod Grouping
pub mod Gathered
pub mod Archives
pub mod Unions
